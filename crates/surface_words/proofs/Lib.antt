mod Steps
mod Runs
mod Fits
mod FirstWrongs
mod Readings
mod Ranges
