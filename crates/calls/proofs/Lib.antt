-- Laws of what calls answer: the first condition that holds, what code that answers has done, the limits of a page, the conditions of a
-- skill list, an answer that is bytes.
pub mod First
pub mod Results
pub mod Giving
pub mod Pages
pub mod Skills
pub mod Outputs
