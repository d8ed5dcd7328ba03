-- What a reader must believe: a pair as its callers see it, what a carrier does, what each event
-- does to a pair, what holds of a pair at any time, and what that means for the groups that its
-- client has settled.
pub mod View
pub mod Beginning
pub mod Carrying
-- events, by what happens
pub mod Calling
pub mod Stepping
pub mod Breaking
pub mod Delivering
pub mod Event
-- the theorem
pub mod Invariant
pub mod Copies
pub mod Headline
-- laws of events
pub mod Laws
-- Words of private functions, which no public contract cites.
pub mod Private
