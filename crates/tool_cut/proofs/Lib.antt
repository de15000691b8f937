mod Keepings
mod Places
mod Words
mod Groups
mod Standings
mod Ends
