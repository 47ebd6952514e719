-- Loops over lengths and bytes, and sums that 64 bits don't hold.
-- Bytes cut into arguments by lengths, and what args_size comes to.
-- Where a push goes.
pub mod Lay
pub mod Behind
pub mod Pushed
pub mod Scan
pub mod Saturated
pub mod Cut
pub mod Size
pub mod Places
