pub mod Terms
pub mod Unknown
pub mod Lists
