pub mod Shapes
pub mod BoxRows
pub mod Scripts
pub mod ScriptTexts
pub mod EmptyRows
pub mod Pictures
