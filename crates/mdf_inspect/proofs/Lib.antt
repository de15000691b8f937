mod Groups
mod Printed
mod Paging
mod Shows
mod Tables
mod Totals
mod Truths
mod Listings
