pub mod FileLoads
