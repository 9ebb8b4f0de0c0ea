-- What document 01 says of the listing on bytes.
pub mod Listing
