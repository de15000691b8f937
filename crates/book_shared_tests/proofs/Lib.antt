mod Begins
mod Feeding
