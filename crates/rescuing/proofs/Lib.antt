pub mod RootFirst
pub mod Parted
pub mod KeptStands
pub mod RescueAnswers
pub mod HadItComeFirst
pub mod Computed
