mod Changes
mod Listing
mod Numbers
mod Padding
mod Ranges
