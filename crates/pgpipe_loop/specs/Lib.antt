-- What a reader must believe: what happens in a loop, the lines of it, what a carrier over two ends
-- does, and what a loop comes to that is broken after each byte.
pub mod Lines
pub mod Trace
pub mod RunLoop
pub mod Everywhere
pub mod Across
-- What is done for a client that is served, for one client after another, and which lines are sent.
pub mod Serving
pub mod Clients
-- Words of private functions, which no public contract cites.
pub mod Private
