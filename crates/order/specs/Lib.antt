-- Accepted speaks of the accepted calls of a list; Held of one panel and of effects on it, over any geometry; Step to EachCall of the calls; Apart of
-- what belongs to one panel alone; Order of lists. Theorem says what a reader wants. In proofs/, Theorem
-- has the theorem, and Witnesses shows that it is not about nothing.
pub mod Accepted
pub mod Held
pub mod Step
pub mod Opens
pub mod MarkSteps
pub mod EachCall
pub mod Apart
pub mod Order
pub mod Theorem
pub mod Witnesses
