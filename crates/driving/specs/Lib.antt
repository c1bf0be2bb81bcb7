-- Copies speaks of the bytes that a line's copy changes, Writes of the writes of a line, Sends of one send, driven and direct. Theorem and InAnyOrder say what a reader
-- wants; the files of these names in proofs/ have the theorems, and Witnesses there shows that they are not about nothing.
pub mod Copies
pub mod Writes
pub mod Sends
pub mod Theorem
pub mod InAnyOrder
