pub mod Report
pub mod StatedReports
