-- Picture is what a picture says, Pictures what the theorem says. Writes finds the pixels that a list of writes changes, Drawings shows that there are bytes to start from
-- and takes a drawing to its picture. In proofs/, Shapes are the pictures, BoxRows speaks of rows beyond
-- the last, Scripts runs the scripts, ScriptTexts has their texts, EmptyRows flushes a pair of an empty GB row, and Pictures has the theorem.
pub mod Picture
pub mod Writes
pub mod Drawings
pub mod Pictures
