-- What is answered of a file up to its objects' names, and of a rescue before ROOM; then the rescue's answer as the code's.
pub mod Opened
pub mod Checked
pub mod RescuedFile
