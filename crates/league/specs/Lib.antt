pub mod League
