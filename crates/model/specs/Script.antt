-- The script program: `Read` gives the calls of a script, `Output` what they print.
pub mod Read
pub mod Output
