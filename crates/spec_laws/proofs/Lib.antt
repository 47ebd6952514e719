-- Laws of the definitions. Of frames and book: above these nothing reasons about frame numbers or words.
pub mod Lists
pub mod Overwrite
pub mod Frame
pub mod Held
pub mod Sweep
pub mod Allowed
pub mod Pokes
pub mod Release
pub mod Share
pub mod Place
pub mod Pieces
pub mod Data
pub mod Pages
pub mod Placed
pub mod Contents
-- Of records and soundness: the test and the facts are equivalent.
pub mod Record
pub mod Shape
pub mod OwnPieces
pub mod Owned
pub mod Exact
pub mod Facts
-- Of images: the checks of each form, and what an accepted program records and a start makes of it.
pub mod Checks
pub mod Loads
pub mod Headers
pub mod Aouts
pub mod Accepted
pub mod Started
pub mod AoutPages
-- Theorems of the definitions alone.
pub mod Begins
pub mod Turns
pub mod Buffers
pub mod Argv
