pub mod Answers
pub mod Automata
pub mod Grammars
pub mod Languages
pub mod Nodes
pub mod Openings
pub mod Tables
