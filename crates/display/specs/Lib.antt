-- The panel's text by the model.
pub mod Display
