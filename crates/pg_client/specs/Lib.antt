-- What a reader must believe: a client's calls and the messages that came, which of these may come,
-- what a client went through, what each call does, and what holds of the client then.
pub mod Session
pub mod View
pub mod Sent
pub mod Closed
pub mod Client
pub mod Keeping
pub mod Lent
pub mod Fault
pub mod Facts
pub mod Turns
pub mod Spelled
pub mod Answering
pub mod Driving
-- What `{:?}` writes of a client's settings.
pub mod Shown
-- How the client goes on from message to message. A history has these words, and those of Place and
-- Collected, under one name (agrees); the law facts_of_a_run says what they mean in those above.
pub mod Startup
pub mod Stand
-- The code's own words, which of the public contracts only those of a keeper cite.
pub mod Private
-- What pg_response defines and the contracts here speak of. Who uses pg_client names it through
-- these lines.
pub use Rattle.pg_response.specs.Place
pub use Rattle.pg_response.specs.Collected
-- Its types.
pub use Rattle.pg_response.specs.declared.place
pub use Rattle.pg_response.specs.declared.collected
