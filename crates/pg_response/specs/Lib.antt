-- Where one is in the segment of a request, which alone decides what may come, and what was
-- collected of it. Who uses pg_client reads them there.
pub mod Place
pub mod Collected
-- What kind of message it is: words of the client's private functions.
pub mod Kind
