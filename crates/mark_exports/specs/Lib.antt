pub mod MarksTold
