mod Held
mod Fronts
