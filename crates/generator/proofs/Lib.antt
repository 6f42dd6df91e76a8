-- Laws of records, shifts, the generator and codewords, and what holds of every accepted plan.
pub mod Gcd
pub mod Windows
pub mod EvenShifts
pub mod LaidShifts
pub mod Shifts
pub mod Sound
pub mod OrderBound
pub mod Widths
pub mod Older
pub mod Bridge
pub mod Entries
pub mod Bounds
pub mod BaseWord
pub mod Recovery
pub mod Words
pub mod Changes
pub mod Costs
pub mod SchemeOf
pub mod PlainLayout
pub mod Messages
pub mod Faults
pub mod Accepts
pub mod Claims
pub mod Comparison
pub mod EvenSizes
-- What the documents fix of records and rows.
pub mod PinnedRecords
pub mod PinnedRows
pub mod Pinned
-- The same definitions as document 03 has them.
pub mod RecordsAgreement
pub mod AcceptedBytes
pub mod ShiftsAgreement
pub mod Agreement
pub mod Answered
