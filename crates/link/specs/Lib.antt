-- In reading order: the map from the model to the code; what a linked state is.
pub mod Map
pub mod Linked
