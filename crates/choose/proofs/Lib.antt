pub mod Written  -- what is known where no number is met
pub mod Entries  -- every entry of the table by one computed test
pub mod Accepted  -- what holds of the record for every n and k
