pub mod App
pub mod Asking
pub mod Forms
pub mod Generate
pub mod Numbers
pub mod Rounds
mod ScriptForms
pub mod Why
