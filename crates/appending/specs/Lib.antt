-- One record more, as a statement on the two files; and on a file of a kind.
pub mod Files
pub mod OneMore
