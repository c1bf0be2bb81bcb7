pub mod Copy
pub mod Hand
