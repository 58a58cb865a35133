-- Laws of trimming: what a fit touches, marks of a window, runs that are kept, what is copied of them, and the image.
pub mod Naming
pub mod Marking
pub mod Results
pub mod Stretches
pub mod Copying
pub mod Filling
pub mod Runs
pub mod Image
