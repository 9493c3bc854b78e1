pub mod Cipher
mod Keys
mod Packets
pub mod Ends
mod Writes
mod Counted
mod Unit
mod Refreshes
mod Unforged
mod Forged
pub mod Literals
pub mod InterfaceComputed
mod MemoryKeys
mod MemoryPackets
pub mod MemoryComputed
pub mod ReadsComputed
pub mod MmioComputed
pub mod DeviceReadsComputed
mod HopLiterals
pub mod HopComputed
