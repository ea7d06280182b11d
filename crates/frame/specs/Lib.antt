pub mod FrameAnswer
