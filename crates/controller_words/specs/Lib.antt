-- The controller's initialisation by numbers.
pub mod Controller
