-- What the functions return: the nodes that may be wrong, and the candidates.
pub mod Suspects
pub mod Candidates
