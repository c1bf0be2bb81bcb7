-- Registers, Entry and Writing are what the functions ask and leave; Device and DeviceLines are the theorems about lists of device calls.
pub mod Registers
pub mod Entry
pub mod Writing
pub mod Device
pub mod DeviceLines
