-- What a reader must believe of where a fault stands: where a part begins, what each byte does, and
-- how what comes is followed.
pub mod Place
pub mod Tracker
pub mod Tracked
-- And of why: why lines of SCRIPT and CALLS are rejected, what was expected where each other fault
-- stands, and what a stream looks like.
pub mod Fields
pub mod Verbs
pub mod Script
pub mod Calls
pub mod Faults
pub mod Guess
