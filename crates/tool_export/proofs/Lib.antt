mod Texts
mod Ends
mod Spans
mod Plain
