-- How a step carries the history on.
pub mod PacketsMore
pub mod StartupNamed
pub mod PacketHandled
pub mod MessageHandled
pub mod StepHandled
