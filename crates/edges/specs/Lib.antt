pub mod Words
pub mod Numbers
pub mod Texts
pub mod Statuses
