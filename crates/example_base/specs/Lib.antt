-- What a reader must believe: the lines of rows, names and errors, as bytes; what a driver knows of
-- its session, and what `ask` does.
pub mod Lines
pub mod Driver
