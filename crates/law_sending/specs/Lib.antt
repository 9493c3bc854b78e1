pub mod Choice
pub mod Trust
pub mod Sends
pub mod Origins
pub mod Covered
pub mod Statements
