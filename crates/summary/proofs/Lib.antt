-- Laws behind summary's proof.
pub mod PanelAnswer
