-- Everything that a reader must believe, one module for each item of docs/RULES.md, in its order; a request is one of docs/changes. No
-- module uses one that stands below it.
pub mod Tests
pub mod Flags
pub mod Numbers
pub mod Name
pub mod Book
pub mod Frames
pub mod Sound
pub mod Access
pub mod Program
pub mod Elf
pub mod Refusals
pub mod Aout
pub mod Image
pub mod Exec
pub mod Segment
pub mod Machine
pub mod World
pub mod History
pub mod Sharing
pub mod Listing
pub mod SetupText
pub mod FlagsText
pub mod Tables
pub mod AoutPages
