-- Definitions that contracts of several crates name; their laws are listed in proofs/Lib.antt. What is where:
--   Choice    pick, PickT, first_of, when: choices by a test
--   Rows      from, rows_from, range: lists by a function of the index
--   Around    around: lists that are gone round
--   Padded    zeros, padded: zeros up to a length
--   Counting  count_from, passing_from, differ, occurrences: the numbers that pass a test, the places where two lists differ, how often a number stands in a list
--   Numbers   all_below, is_in, distinct: tests of lists of numbers
--   Search    first_false: the first number of a stretch that fails a test
--   AllLists  any_list, first_list: the search through all lists of n numbers below q
pub mod Choice
pub mod Rows
pub mod Around
pub mod Padded
pub mod Counting
pub mod Numbers
pub mod Search
pub mod AllLists
pub mod Inner
