-- Laws of racks and hardpoints: the test of a hardpoint, and what is reported.
pub mod Taking
pub mod Reports
