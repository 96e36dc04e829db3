-- A law of the quick pass over a memory's times.
mod Quick
