pub mod Calls
pub mod Hall
pub mod Standing
pub mod Widen
pub mod Train
pub mod Trim
pub mod Cause
pub mod LeaveOut
