pub mod KindsAndEnds
pub mod WriterLines
