mod FaultPlaces
mod Draws
pub mod PortsFit
mod OperationsFit
mod SendsFit
mod ForwardsFit
mod ArrivalsFit
mod SitesFit
mod InterfacesFit
mod MemoryFits
mod AnswersFit
mod MmioFits
pub mod ResponsesFit
pub mod Fitting
pub mod Reading
