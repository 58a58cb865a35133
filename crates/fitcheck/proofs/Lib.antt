-- Laws of the calls: their readers, the fits of a hall, the widening, the training, the trimming, the cause, what to leave out.
pub mod Reading
pub mod HallLaws
pub mod Widening
pub mod Training
pub mod Trimming
pub mod Causing
pub mod Leaving
