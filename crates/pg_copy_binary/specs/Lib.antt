-- What a reader of the contracts must believe stands in Binary. BinaryPart reads a binary file from
-- left to right, which the law OneFile ties to Binary. BinaryReader says what the calls of a reader
-- do, BinaryLaws what holds of the format. Of private types the public files name the stages of the
-- reader (BinaryStage).
pub mod Binary
pub mod BinaryPart
pub mod BinaryReader
pub mod BinaryLaws
-- Words of private functions.
pub mod Private
