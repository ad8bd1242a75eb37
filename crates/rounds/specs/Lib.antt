-- What the books of chess and bridge share.

-- to be believed: what contracts and theorems say is said with these
pub mod Faults
pub mod Rounds
pub mod Games
pub mod Sheets
pub mod Pages
pub mod Kept
-- what a game has to prove of its cells
pub mod Fits
pub mod Rooms
-- proofs: lemmas, each checked, that end in the law of books
pub mod Totals
pub mod Shapes
pub mod Sizes
pub mod Again
pub mod Parts
pub mod Keys
pub mod Laws
