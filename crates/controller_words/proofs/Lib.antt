-- The laws of the controller's initialisation by numbers.
pub mod Controller
