mod Placing
mod Bodies
mod Standing
mod Keeping
mod Taking
mod Ends
mod Among
mod Bytes
