-- The laws of Request 08.
pub mod Agree
pub mod Repeat
pub mod Parts
pub mod Whole
pub mod Why
pub mod Truly
pub mod Truth
pub mod Seat
pub mod TruthWhole
pub mod Promise
pub mod Jump
pub mod Natural
pub mod Stages
pub mod Cases
